pub mod CallLemmas
pub mod ColumnLemmas
pub mod FreeLemmas
pub mod HoldLemmas
pub mod LinkLemmas
pub mod PartLemmas
