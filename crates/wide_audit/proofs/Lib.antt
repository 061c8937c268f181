pub mod Orders
pub mod Earlier
pub mod Valuations
pub mod WrongPoints
pub mod Searched
pub mod Verdicts
pub mod Shown
