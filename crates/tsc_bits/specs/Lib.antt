pub mod Bits
pub mod Counting
pub mod Lists
pub mod Thermometer
