pub mod Setups
pub mod Sites
pub mod Coming
pub mod Beliefs
