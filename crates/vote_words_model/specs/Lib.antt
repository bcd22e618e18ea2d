pub mod Places
pub mod Views
pub mod Steps
pub mod Laws
pub mod Schedules
