pub mod Fields
pub mod Label
pub mod Memory
pub mod Outside
pub mod Padded
