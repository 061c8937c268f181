pub mod Names
pub mod Begun
pub mod Outputs
pub mod CheckerParts
pub mod Rails
