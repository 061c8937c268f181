pub mod Meaning
pub mod Breaks
pub mod Reason
pub mod Points
pub mod Trial
pub mod Lanes
