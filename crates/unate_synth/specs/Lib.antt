pub mod UnateNetlist
pub mod UnateLines
pub mod Roots
pub mod Alone
pub mod Composed
pub mod Composing
pub mod Size
