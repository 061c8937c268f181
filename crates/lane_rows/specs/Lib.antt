pub mod Alive
pub mod Rows
pub mod Needs
pub mod Holding
pub mod Along
pub mod Examples
