pub mod Histories
pub mod Copies
pub mod Changes
pub mod Places
pub mod Ends
pub mod Kept
pub mod Reads
