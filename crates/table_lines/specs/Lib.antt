pub mod LineFaults
pub mod FirstFault
pub mod NamesText
pub mod Denotes
