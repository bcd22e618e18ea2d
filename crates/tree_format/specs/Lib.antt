pub mod Grammar
pub mod Strings
