pub mod WideLemmas
