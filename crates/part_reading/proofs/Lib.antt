pub mod OneClock
pub mod PartLemmas
pub mod PartMade
