pub mod PointReason
pub mod Worked
pub mod There
pub mod Spans
pub mod Trial
