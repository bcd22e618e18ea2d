pub mod Blocks
pub mod Joined
pub mod Outcomes
pub mod Versions
pub mod Made
pub mod Labels
pub mod Told
