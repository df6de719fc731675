mod TakenIn
mod Swapped
mod Arrived
mod EvictedPath
mod FoundCopy
pub mod Exchanged
mod PutValue
mod Versioned
