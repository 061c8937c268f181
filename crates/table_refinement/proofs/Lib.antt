pub mod Inputs
pub mod TextNetworks
pub mod RefinedTables
pub mod UnfreedTables
pub mod SmallRefinement
