pub mod DrawnLemmas
pub mod CountLemmas
pub mod RowFacts
pub mod MadeLines
pub mod MadeRows
pub mod MadeStates
pub mod MadeMachine
