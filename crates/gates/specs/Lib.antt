pub mod Endings
pub mod Pictures
