pub mod KeptItems
pub mod SetKeys
pub mod Halves
pub mod Joined
pub mod Held
