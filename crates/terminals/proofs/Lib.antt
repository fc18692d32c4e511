mod Behind
mod Best
mod Beside
mod Images
mod Inserted
mod OneContent
mod Told
pub mod Decided
