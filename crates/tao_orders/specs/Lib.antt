pub mod Shares
pub mod Works
pub mod Rule
pub mod Passes
pub mod Below
