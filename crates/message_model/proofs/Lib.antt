pub mod Fields
pub mod Meant
pub mod Places
