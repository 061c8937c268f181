pub mod FindingBlocks
pub mod Chains
pub mod Wide
pub mod Values
pub mod Covers
pub mod MappedAnswer
pub mod NamesFound
