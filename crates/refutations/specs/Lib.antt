pub mod Clauses
pub mod Steps
pub mod Known
pub mod Store
pub mod Checking
