pub mod TableLaws
pub mod SmallTable
