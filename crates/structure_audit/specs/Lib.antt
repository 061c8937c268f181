pub mod StructureReason
pub mod Marks
pub mod Lines
pub mod Answers
