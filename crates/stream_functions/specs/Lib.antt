pub mod Lists
pub mod Near
pub mod Pieces
pub mod Remainders
pub mod Texts
