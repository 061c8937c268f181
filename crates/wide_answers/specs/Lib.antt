pub mod WideSections
pub mod WideText
pub mod WideReply
