pub mod ClockLemmas
pub mod MappedLemmas
