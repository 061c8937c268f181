mod OneGrade
mod NoSilent
mod Shown
mod Latches
mod Counts
mod SmallGrades
mod MoreInputs
