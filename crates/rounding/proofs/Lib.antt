pub mod Wholes
pub mod ByCases
pub mod Sums
