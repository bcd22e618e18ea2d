pub mod Fitting
pub mod Reads
pub mod Spelling
