pub mod Answers
pub mod Journaled
