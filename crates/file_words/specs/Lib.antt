pub mod Faults
pub mod Pieces
pub mod WordReading
pub mod Words
