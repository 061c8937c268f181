pub mod MarksLemmas
pub mod WordWithin
