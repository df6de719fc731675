pub mod Counts
pub mod Places
pub mod Printing
pub mod Tables
pub mod Told
pub mod WholeLines
