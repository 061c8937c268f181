pub mod Denoted
pub mod Refused
