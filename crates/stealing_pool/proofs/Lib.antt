pub mod Rows
pub mod Drawn
pub mod Places
pub mod Picked
pub mod Filled
pub mod Forks
pub mod Shifts
