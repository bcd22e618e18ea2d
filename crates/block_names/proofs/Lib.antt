pub mod Grown
pub mod Clashed
pub mod Map
