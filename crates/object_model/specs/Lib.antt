pub mod Folds
pub mod Laws
pub mod Pieces
pub mod Trees
pub mod Updates
pub mod Outcomes
