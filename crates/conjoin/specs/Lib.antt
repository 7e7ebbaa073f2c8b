-- What a reader of `conjoin` must believe, in the order of reading.
pub mod Cache
