pub mod Held
pub mod HeldLaws
pub mod HonestAnswers
pub mod Steps
pub mod WorkedHeld
pub mod WorkedProxies
