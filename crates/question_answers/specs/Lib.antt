pub mod Refused
pub mod NoQuestion
pub mod QuestionReply
pub mod Sizes
pub mod Laws
