pub mod Planning
pub mod Small
pub mod CheckedNet
pub mod ParityNet
pub mod Composed
