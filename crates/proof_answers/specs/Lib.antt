pub mod Refused
pub mod ProofReply
pub mod Sizes
pub mod Laws
