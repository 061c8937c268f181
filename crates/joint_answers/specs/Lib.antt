pub mod JointParts
pub mod JointReply
