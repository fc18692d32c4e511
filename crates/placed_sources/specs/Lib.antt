pub mod Zips
pub mod Steps
pub mod Slides
