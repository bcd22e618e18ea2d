pub mod Added
pub mod Choice
pub mod Executed
pub mod Laws
pub mod Shelves
pub mod Views
