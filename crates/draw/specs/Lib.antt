-- What a reader of `draw` must believe, in the order of reading.
pub mod Limits
pub mod Draw
