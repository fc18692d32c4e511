pub mod Adapting
pub mod Functions
pub mod NumberSteps
pub mod Stages
pub mod Summaries
pub mod TextSteps
pub mod Walks
