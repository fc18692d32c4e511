pub mod Jobs
pub mod Shifts
pub mod Gathers
pub mod Reports
pub mod Spans
pub mod SpanLaws
pub mod Cases
