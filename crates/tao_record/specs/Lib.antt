pub mod Rooms
pub mod State
