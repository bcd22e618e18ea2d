pub mod Counts
pub mod Namings
