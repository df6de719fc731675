pub mod TreeLemmas
pub mod Fronts
pub mod ImageLemmas
pub mod TransferLemmas
