pub mod Groups
pub mod Readers
pub mod Rooms
pub mod State
pub mod Steps
pub mod Tags
pub mod Topping
