pub mod ExactVerdict
pub mod ExactLaws
