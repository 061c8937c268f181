pub mod WideVerdict
pub mod Laws
pub mod FirstWrong
pub mod Points
pub mod Shown
