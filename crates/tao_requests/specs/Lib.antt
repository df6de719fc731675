pub mod Laws
pub mod Queues
pub mod Rooms
pub mod Settling
pub mod State
