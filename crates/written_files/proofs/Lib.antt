pub mod FieldsBack
pub mod Tabulated
pub mod Passed
pub mod Tags
pub mod WrittenParts
pub mod ReadsBack
pub mod SameFields
pub mod SameFile
