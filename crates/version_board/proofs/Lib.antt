pub mod Adding
pub mod RuleKept
pub mod ChangeLemmas
pub mod PlaceLemmas
pub mod Noting
pub mod Reading
