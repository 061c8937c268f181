pub mod CoverSteps
pub mod SettlingSteps
