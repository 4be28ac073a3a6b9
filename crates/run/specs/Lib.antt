pub mod Refusals
pub mod Text
pub mod Lines
pub mod Turns
pub mod States
