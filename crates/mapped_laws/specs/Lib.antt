pub mod MappedLaws
pub mod MappedReplies
