mod Believed
mod LabelBytes
mod Versions
mod Slots
mod Told
