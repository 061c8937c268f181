pub mod CoverBound
pub mod WayNetlist
pub mod MachineLimits
pub mod RowStates
