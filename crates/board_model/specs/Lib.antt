pub mod Boards
pub mod Rule
pub mod Laws
