pub mod Votes
pub mod Boards
pub mod Newest
pub mod Joins
