mod Converses
mod Said
mod Clashing
mod Agreed
