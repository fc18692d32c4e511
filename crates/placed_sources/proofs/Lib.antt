pub mod ZipLaws
pub mod Reverses
pub mod StepLaws
pub mod SlideLaws
