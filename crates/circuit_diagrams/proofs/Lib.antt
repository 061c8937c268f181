pub mod Lists
pub mod CoverLists
pub mod Adding
pub mod Prefixes
pub mod NetWalk
pub mod MarkedReads
pub mod Filling
