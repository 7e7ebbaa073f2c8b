-- What a reader of `diagrams` must believe, in the order of reading.
pub mod Diagrams
pub mod Making
pub mod Counts
pub mod Theorems
pub mod Building
pub mod Caching
pub mod Frames
pub mod Paths
pub mod Numbering
pub mod Forward
pub mod Leads
