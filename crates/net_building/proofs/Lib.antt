pub mod FreshSteps
pub mod NamedNets
pub mod WholeOrder
pub mod NoFault
