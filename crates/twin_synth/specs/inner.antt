-- What the steps of the code answer and keep.
pub mod Built
pub mod Placed
pub mod Composed
pub mod Planned
