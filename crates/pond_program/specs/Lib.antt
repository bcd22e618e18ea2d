pub mod Exactly
pub mod Exit
pub mod Lines
pub mod Runs
pub mod Table
pub mod Tasks
