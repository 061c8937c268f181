pub mod LaneLemmas
pub mod CountLemmas
pub mod CodeLaneLemmas
pub mod GroupLemmas
