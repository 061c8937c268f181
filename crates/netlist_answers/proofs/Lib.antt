pub mod FaultLemmas
pub mod FaultLines
pub mod PrintoutLemmas
pub mod SimLemmas
pub mod VectorLemmas
pub mod GradeLemmas
pub mod AuditLemmas
