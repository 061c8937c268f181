pub mod PrintLemmas
pub mod PieceLemmas
