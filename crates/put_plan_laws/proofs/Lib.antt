pub mod OtherLines
pub mod OtherFaults
pub mod PutLines
pub mod KeptMappings
pub mod AuditedTexts
