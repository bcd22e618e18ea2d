pub mod Named
pub mod Newly
pub mod Running
pub mod Caused
pub mod Served
pub mod Steps
pub mod Letters
