pub mod Keys
pub mod Standing
pub mod Latest
pub mod Own
pub mod Joined
