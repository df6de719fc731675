pub mod Parts
pub mod Residents
