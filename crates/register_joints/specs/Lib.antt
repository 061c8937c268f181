pub mod PartSource
pub mod SourcesSecure
pub mod RegisterJoints
pub mod SolePart
pub mod SmallJoint
