pub mod LongNames
pub mod NameLists
pub mod LineFacts
pub mod NameWords
