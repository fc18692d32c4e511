pub mod RangeBlocks
pub mod RangeBounds
pub mod ProgressionBlocks
pub mod AscendingParts
pub mod DifferingParts
