pub mod Barriers
pub mod Groups
pub mod Typed
pub mod Value
