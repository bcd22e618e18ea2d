pub mod Allowed
pub mod Shown
pub mod Changed
