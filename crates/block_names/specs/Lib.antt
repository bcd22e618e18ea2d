pub mod Digest
pub mod Faults
pub mod Growth
pub mod Clashes
pub mod Held
