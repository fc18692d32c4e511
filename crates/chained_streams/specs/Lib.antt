pub mod Chains
pub mod ChainLaws
pub mod ChainReading
pub mod ChainReadingLaws
