pub mod Points
pub mod Secure
pub mod Determined
pub mod Shown
