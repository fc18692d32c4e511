pub mod Between
pub mod BetweenLaws
