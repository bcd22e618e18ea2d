pub mod Decoding
pub mod Grammar
pub mod Reads
pub mod Spelling
pub mod Statements
