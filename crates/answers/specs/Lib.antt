pub mod Refused
pub mod NetworkAnswers
pub mod TwinAnswers
pub mod Answers
pub mod Commands
