-- What a reader of `vectors` must believe, in the order of reading.
pub mod Vectors
