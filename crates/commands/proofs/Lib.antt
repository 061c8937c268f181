pub mod WhenLemmas
