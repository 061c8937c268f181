pub mod Words
pub mod Chosen
pub mod CaseLists
pub mod StateCases
pub mod Choosing
pub mod AllStates
pub mod Sizes
pub mod MachineWord
