pub mod Splits
pub mod Digits
pub mod Gathering
pub mod Grouped
