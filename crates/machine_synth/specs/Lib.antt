pub mod MachineBound
pub mod MachineFunction
pub mod MachineNetlist
pub mod MachineParts
pub mod Examples
