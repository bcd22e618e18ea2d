pub mod Behind
pub mod Mails
pub mod Places
pub mod Queues
pub mod Skips
