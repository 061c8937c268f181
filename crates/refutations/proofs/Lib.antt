pub mod Trails
pub mod Soundness
pub mod StoreLemmas
pub mod Readiness
pub mod Gathering
