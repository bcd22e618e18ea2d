pub mod Replies
pub mod Naming
pub mod Sending
pub mod Clients
pub mod Beliefs
