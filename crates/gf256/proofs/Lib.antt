pub mod Computed
pub mod Linear
pub mod Laws
pub mod Powers
pub mod Ring
