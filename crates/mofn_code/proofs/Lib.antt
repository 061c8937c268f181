pub mod Powers
pub mod Rows
pub mod Codeword
