pub mod Bounds
pub mod FirstSorted
pub mod Insertion
pub mod Reversed
pub mod Sorted
pub mod SortedLaws
