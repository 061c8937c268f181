pub mod StatusCode
pub mod StatusOf
pub mod Notes
