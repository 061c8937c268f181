pub mod BoundLemmas
pub mod WayBounds
pub mod TwinBounds
pub mod ResultSteps
pub mod RowCount
pub mod LooseSynthesis
