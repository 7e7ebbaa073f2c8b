-- What a reader of `sizes` must believe, in the order of reading.
pub mod Limits
pub mod Sizes
pub mod Sized
