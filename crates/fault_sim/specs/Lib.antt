pub mod PlanNets
pub mod Sim
pub mod Shown
pub mod SimView
pub mod Calls
pub mod Outcomes
pub mod Batch
