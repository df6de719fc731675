pub mod OrderLemmas
pub mod ViewLemmas
pub mod ShareLemmas
pub mod Putting
pub mod Taking
pub mod Draining
pub mod Passing
pub mod BelowLemmas
