pub mod MachineLines
pub mod MachineSize
pub mod Cases
