pub mod NumberFronts
pub mod TextFronts
