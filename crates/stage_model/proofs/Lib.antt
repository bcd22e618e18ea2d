mod Lists
mod Weights
mod Orders
pub mod Moves
