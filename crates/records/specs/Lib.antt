pub mod Bytes
pub mod Numbers
pub mod Codes
pub mod Kinds
pub mod Frames
pub mod Asked
pub mod Questions
