pub mod Pool
pub mod RowList
pub mod Lending
pub mod Laws
