pub mod AnswerLaws
pub mod Answers
pub mod Honesty
pub mod Nodes
pub mod Orders
pub mod Paths
pub mod WorkedAnswers
