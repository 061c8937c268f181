pub mod DuplexNet
pub mod Composed
pub mod Duplexable
pub mod DuplexLaws
