pub mod AnswerLemmas
pub mod BodyLemmas
pub mod ContentLemmas
pub mod FirstFrames
pub mod Frontier
pub mod Streams
pub mod Totals
