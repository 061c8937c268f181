pub mod Bits
pub mod Counting
pub mod Pigeonhole
pub mod Bools
pub mod Lists
pub mod Thermometers
pub mod Ranges
pub mod Below
