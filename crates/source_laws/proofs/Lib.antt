pub mod AllowsLess
pub mod LooseRefinement
