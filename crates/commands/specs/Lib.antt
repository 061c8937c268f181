pub mod Words
pub mod WhenWords
pub mod SimWords
pub mod Meaning
