pub mod Calls
pub mod Inside
pub mod Refusals
pub mod Scanning
pub mod Sound
pub mod State
