pub mod Format
pub mod Number
pub mod Pattern
pub mod Sequence
pub mod Step
pub mod Term
pub mod Complex
