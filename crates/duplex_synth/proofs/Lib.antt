pub mod CheckSteps
pub mod DuplexDraft
pub mod WrittenSteps
pub mod Secure
pub mod Smaller
pub mod OneGroup
pub mod DuplexParts
