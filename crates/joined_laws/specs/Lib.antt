pub mod JoinedAnswers
pub mod AcceptedParts
