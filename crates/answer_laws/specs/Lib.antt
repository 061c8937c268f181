pub mod AnswerLaws
pub mod MadeLaws
pub mod LooseTexts
pub mod GradedLaws
