pub mod Variables
pub mod Rows
pub mod Gates
pub mod Question
pub mod Laws
pub mod SmallQuestion
