pub mod Laws
pub mod Meaning
pub mod Members
pub mod Reading
pub mod Requests
pub mod Naming
pub mod Told
