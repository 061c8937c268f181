pub mod TableRefinement
pub mod Unfreed
pub mod SmallRefinement
