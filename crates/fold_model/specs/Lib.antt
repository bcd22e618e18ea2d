pub mod Folds
pub mod Growing
pub mod LabelLaws
pub mod Laws
pub mod Rings
