pub mod WholeText
pub mod OwnClocks
pub mod OwnMapping
pub mod MappedTwins
