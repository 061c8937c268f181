pub mod Help
pub mod Cause
pub mod Written
