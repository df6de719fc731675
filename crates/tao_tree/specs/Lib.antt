pub mod Doors
pub mod Forging
pub mod Ledgers
pub mod Nodes
pub mod Rooms
pub mod Streams
pub mod Writes
