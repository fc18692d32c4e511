pub mod Content
pub mod FileReading
pub mod Form
pub mod Grammar
pub mod Language
pub mod Reading
pub mod Steps
pub mod Syntax
