pub mod RefinedAnswers
