pub mod JointLemmas
