pub mod TreeNodes
pub mod JointNet
pub mod JoinLaws
pub mod TwoJoined
pub mod JoinParts
pub mod JoinLimits
