pub mod LineLemmas
pub mod WordLemmas
pub mod StepsLemmas
pub mod TakeLemmas
pub mod TableLemmas
pub mod InputLemmas
pub mod BatchLemmas
