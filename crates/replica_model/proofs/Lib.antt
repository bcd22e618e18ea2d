pub mod Caching
pub mod Chaining
pub mod Counting
pub mod Keeping
pub mod Standing
mod Rows
mod Following
