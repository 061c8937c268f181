pub mod JointText
pub mod JointNamed
pub mod Portions
pub mod TreeWords
pub mod LineWords
pub mod JointTextLaws
pub mod JointView
