pub mod OwnMappings
pub mod MappedTwins
