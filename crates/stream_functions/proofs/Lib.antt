pub mod BlockSteps
pub mod CopySteps
pub mod Finding
pub mod Inverses
pub mod NearNumbers
pub mod Numerals
pub mod Quotients
pub mod Separated
