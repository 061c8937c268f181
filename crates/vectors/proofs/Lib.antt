pub mod PlaceLemmas
pub mod SelfTesting
pub mod PointLemmas
pub mod UnheardLemmas
