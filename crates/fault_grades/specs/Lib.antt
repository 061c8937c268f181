pub mod Grade
pub mod Batch
