-- What a reader of `blocks` must believe, in the order of reading.
pub mod Blocks
