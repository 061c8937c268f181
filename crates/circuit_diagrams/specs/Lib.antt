pub mod Stated
pub mod Steps
pub mod NetRows
