-- What a reader of `words` must believe, in the order of reading.
pub mod Words
