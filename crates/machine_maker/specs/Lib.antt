pub mod Drawn
pub mod MadeText
pub mod MadeLines
pub mod MadeMachine
pub mod Examples
pub mod Counts
pub mod Summary
