pub mod Texts
pub mod Skipping
pub mod Shared
pub mod Lines
pub mod Stands
pub mod Refusal
