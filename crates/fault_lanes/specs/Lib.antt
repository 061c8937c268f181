pub mod Batch
pub mod Bench
pub mod BenchView
pub mod Chains
pub mod Ready
pub mod Settling
pub mod Runs
