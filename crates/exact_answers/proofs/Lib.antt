pub mod ExactLemmas
