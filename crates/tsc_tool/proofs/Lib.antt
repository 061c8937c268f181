pub mod CauseLemmas
pub mod StoppedCause
pub mod WrittenLemmas
pub mod CompleteLemmas
