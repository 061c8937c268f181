pub mod CheckBits
