pub mod MappedBits
pub mod MovedPlan
pub mod ConstantGates
pub mod FailingBlocks
pub mod OneRunBut
pub mod Secure
pub mod SmallMappings
pub mod MappingsJoined
