pub mod Fronts
pub mod GoesOn
pub mod Kept
