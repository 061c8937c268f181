pub mod Steps
pub mod RunningAnds
pub mod RunningOrs
pub mod TruthLemmas
pub mod BuiltRows
