pub mod DeskStep
pub mod PathBuckets
pub mod PathList
pub mod QuietStep
