pub mod Mapping
pub mod FailingBlock
pub mod MappingLaws
pub mod Inverters
