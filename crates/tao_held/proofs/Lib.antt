pub mod AlikeContents
pub mod Blocks
pub mod HeldAnswers
pub mod HeldSteps
pub mod HonestSenses
pub mod TrueWrites
pub mod WholeBlocks
pub mod WorkedHolds
