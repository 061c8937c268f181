pub mod Accepted
pub mod OneVerdict
pub mod Points
pub mod Shown
