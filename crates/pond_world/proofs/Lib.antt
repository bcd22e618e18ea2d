pub mod Made
pub mod Faulty
pub mod Sites
pub mod Coming
pub mod Elements
pub mod Labels
