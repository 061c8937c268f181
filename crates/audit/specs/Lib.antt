pub mod Verdict
pub mod Conditions
pub mod Shown
pub mod Laws
