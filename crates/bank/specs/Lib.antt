pub mod Numbers
pub mod Slots
pub mod Calls
pub mod Views
pub mod Rows
