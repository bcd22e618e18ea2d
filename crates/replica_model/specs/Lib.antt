pub mod Caches
pub mod Offers
pub mod Pushes
pub mod Replicas
pub mod Statements
pub mod Trees
pub mod Walks
