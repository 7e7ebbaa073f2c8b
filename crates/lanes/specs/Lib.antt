-- What a reader of `lanes` must believe, in the order of reading.
pub mod Limits
pub mod Lanes
