pub mod NormalForm
pub mod Lines
pub mod Pushed
