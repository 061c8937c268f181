pub mod ByteCounts
pub mod PinCounts
pub mod FewClauses
pub mod Few
pub mod Fits
pub mod Replies
pub mod Proved
pub mod Determined
