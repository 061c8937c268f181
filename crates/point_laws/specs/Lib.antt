pub mod Points
pub mod Reached
pub mod Heard
pub mod PointLaws
pub mod AlarmLaws
pub mod MappedAlarms
pub mod SmallPoints
