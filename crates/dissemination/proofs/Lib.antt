pub mod Changing
pub mod Climbing
pub mod Gathering
pub mod Inners
pub mod Maps
pub mod Newer
pub mod Owning
pub mod Stepping
