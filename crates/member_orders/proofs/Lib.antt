pub mod Going
pub mod Owed
pub mod Ranges
pub mod Turns
