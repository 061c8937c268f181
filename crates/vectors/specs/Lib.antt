pub mod Vectors
pub mod Trial
pub mod Unheard
