pub mod HoldLemmas
pub mod ChainLemmas
pub mod CoverLemmas
pub mod PairLemmas
pub mod SettleLemmas
pub mod StateLemmas
pub mod RunLemmas
pub mod BenchLemmas
