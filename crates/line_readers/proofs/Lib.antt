pub mod Behind
pub mod Cuts
pub mod Firsts
pub mod Flights
pub mod Linking
pub mod Told
