pub mod MarksLemmas
pub mod PinLemmas
pub mod Determined
pub mod LineLemmas
pub mod LineWalk
pub mod PairLemmas
pub mod GroupPlaces
pub mod AnswerLemmas
