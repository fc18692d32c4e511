pub mod OneLine
pub mod Parts
pub mod Ways
