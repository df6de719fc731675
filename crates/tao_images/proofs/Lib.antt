pub mod AnswerLemmas
pub mod Comparisons
pub mod KnownLemmas
pub mod OrderLemmas
pub mod PathLemmas
pub mod ReadLemmas
pub mod Refusals
