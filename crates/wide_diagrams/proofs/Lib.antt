pub mod Signals
pub mod Counts
