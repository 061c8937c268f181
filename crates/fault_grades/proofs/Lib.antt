pub mod StandLemmas
pub mod SeenLemmas
pub mod StepLemmas
pub mod BatchLemmas
pub mod GradedLemmas
pub mod CellLemmas
pub mod MarkLemmas
