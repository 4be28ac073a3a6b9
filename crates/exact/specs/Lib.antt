pub mod Exact
pub mod Parts
pub mod Rounding
pub mod Ties
