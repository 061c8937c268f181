pub mod Weights
pub mod Without
pub mod OverInputs
pub mod Decoded
pub mod Selected
pub mod Matched
pub mod Codewords
