pub mod Token
pub mod RefutationLine
pub mod Following
pub mod Reading
pub mod Examples
