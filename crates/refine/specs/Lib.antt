-- What a reader of `refine` must believe, in the order of reading.
pub mod Limits
pub mod Rows
pub mod Buckets
pub mod Collecting
