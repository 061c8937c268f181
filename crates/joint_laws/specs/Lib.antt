pub mod Parts
pub mod Joint
pub mod JointSecure
pub mod JointLaws
pub mod JointCircuit
pub mod JointCircuitLaws
