pub mod Numbered
pub mod Pushed
pub mod Table
pub mod Checks
pub mod TwinNetlist
pub mod TwinGates
pub mod NumberedView
pub mod inner
