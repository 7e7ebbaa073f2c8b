-- What a reader of `latest` must believe, in the order of reading.
pub mod Latest
