pub mod NormalForm
pub mod Phases
pub mod Pushed
