-- What a reader of `prefix` must believe, in the order of reading.
pub mod FirstFrames
pub mod Theorems
