pub mod Adding
mod ChoiceLemmas
pub mod ExecutedLemmas
mod Execution
pub mod HeldStrings
mod Lengths
pub mod NewStrings
mod SeenLemmas
mod ShelfLemmas
pub mod Kept
