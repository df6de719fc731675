pub mod Arrivals
pub mod Followed
pub mod KeptQueues
pub mod NewRequests
pub mod OrderSteps
pub mod PlainAnswers
pub mod QueueTurns
pub mod SettledLists
