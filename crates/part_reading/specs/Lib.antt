pub mod Parts
pub mod PartClocks
pub mod PartRefusal
pub mod WorkedParts
