pub mod ExactText
pub mod ExactReply
