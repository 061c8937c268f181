pub mod Steps
pub mod Arrivals
pub mod WhereReached
pub mod AtPoints
pub mod Heard
pub mod MappedAlarms
pub mod SmallPoints
