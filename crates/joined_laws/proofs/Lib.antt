pub mod ListedPlans
pub mod Clockless
pub mod RegisterParts
pub mod AnswersInARow
pub mod JoinedAnswers
pub mod AcceptedParts
