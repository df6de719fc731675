pub mod Columns
pub mod Linked
pub mod SlotMap
