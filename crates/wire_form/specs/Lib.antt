pub mod FormLaws
pub mod Forms
pub mod KnownEntries
