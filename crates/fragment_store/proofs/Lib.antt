pub mod Offers
pub mod Spoiling
