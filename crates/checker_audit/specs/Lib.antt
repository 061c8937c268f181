pub mod FirstMisfit
pub mod Matching
pub mod Noting
pub mod Misjudged
pub mod Program
pub mod CheckerAnswer
pub mod Lanes
