pub mod Counting
pub mod Standing
pub mod Knowing
pub mod Deciding
pub mod Keeping
pub mod Schedules
pub mod Guards
