pub mod Names
pub mod Parts
pub mod RootParts
pub mod Roots
