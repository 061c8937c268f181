pub mod Decisions
pub mod DecisionRows
pub mod Cofactors
pub mod Operations
pub mod Building
pub mod Waiting
pub mod Least
