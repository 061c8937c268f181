pub mod Counts
pub mod SourceState
pub mod SinkState
pub mod Reading
pub mod Writing
pub mod Lends
