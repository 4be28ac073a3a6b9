pub mod Rules
pub mod BySign
