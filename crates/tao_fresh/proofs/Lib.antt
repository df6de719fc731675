pub mod CleanNodes
pub mod CountedCopies
pub mod FinalLooks
pub mod FreshCopies
pub mod FreshWriteBacks
pub mod RightAnswers
pub mod SettledMoves
pub mod WrittenBuckets
