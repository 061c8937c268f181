pub mod Stated
pub mod Wide
pub mod GateRows
