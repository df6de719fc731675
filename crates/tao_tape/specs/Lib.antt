pub mod Keystream
pub mod Tapes
pub mod Script
