mod Slots
pub mod Loads
