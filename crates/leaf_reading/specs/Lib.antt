pub mod Fronts
pub mod KeeperLaws
pub mod Keepers
pub mod Stretches
