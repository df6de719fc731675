pub mod PathLemmas
pub mod StateLemmas
