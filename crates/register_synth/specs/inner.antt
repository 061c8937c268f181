-- What the steps of the code answer and keep: the search for what reaches some nets.
pub mod Search
pub mod Sharing
pub mod Marked
