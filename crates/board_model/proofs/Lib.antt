pub mod Prefixes
pub mod Lasts
pub mod Kept
