pub mod Headings
pub mod WideRows
pub mod RightNames
pub mod FreshApart
pub mod SoundNets
pub mod TableNets
