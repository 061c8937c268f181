pub mod WideAccepted
pub mod WideReplies
