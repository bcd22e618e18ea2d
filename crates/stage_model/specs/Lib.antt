pub mod Lines
pub mod Passes
pub mod Rules
pub mod Laws
