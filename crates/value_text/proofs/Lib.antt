pub mod Separated
