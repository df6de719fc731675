pub mod Evicted
mod GatheredCopies
mod Loaded
mod MergeSteps
mod MergedLists
pub mod PathNodes
pub mod PlacedLists
mod RankedCopies
mod RisingLists
mod SharedPaths
mod WholePasses
