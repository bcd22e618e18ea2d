pub mod Clients
pub mod Deliveries
pub mod Executed
