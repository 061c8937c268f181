pub mod Indexes
pub mod Words
pub mod Entries
pub mod Moves
pub mod AllFree
pub mod Holding
pub mod Counts
