-- What a reader of `answers` must believe, in the order of reading.
pub mod Answer
