pub mod Carried
pub mod Flights
pub mod Values
pub mod Meeting
