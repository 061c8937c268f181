pub mod MappedSections
pub mod MappedClocks
pub mod MappedText
pub mod MappedReply
