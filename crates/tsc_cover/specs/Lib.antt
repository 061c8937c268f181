pub mod Cover
pub mod Gates
pub mod Row
pub mod Terms
pub mod Text
