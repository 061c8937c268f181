pub mod MarkLemmas
pub mod ConeLoop
pub mod OrderWithin
pub mod ConeMarksLemmas
pub mod MarkedCone
pub mod ConeNets
pub mod MemberPlaces
