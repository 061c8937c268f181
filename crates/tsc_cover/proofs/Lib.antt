pub mod Truth
pub mod Meeting
pub mod Row
pub mod Text
