pub mod EntriesRead
pub mod Known
pub mod KnownNested
pub mod KnownSummaries
pub mod Members
pub mod SetsRead
