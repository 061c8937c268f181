pub mod Cones
pub mod Marks
pub mod ConeMarks
