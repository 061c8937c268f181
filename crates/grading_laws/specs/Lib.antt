pub mod Grades
pub mod GradeLaws
pub mod Counts
pub mod SmallGrades
