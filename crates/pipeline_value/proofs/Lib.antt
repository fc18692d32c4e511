pub mod Links
pub mod Strict
pub mod ByKind
