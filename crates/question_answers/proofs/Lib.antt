pub mod LineCounts
pub mod Sized
pub mod FewVariables
pub mod Asked
pub mod Replies
pub mod Determined
