pub mod Telling
pub mod Boards
pub mod Changes
pub mod Votes
pub mod CommitVotes
