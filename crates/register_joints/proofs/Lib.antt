pub mod Shown
pub mod OwnAlarms
pub mod JoinedParts
pub mod HeardAlarms
pub mod SoleParts
pub mod SmallJoints
