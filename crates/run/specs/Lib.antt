-- What a reader of `run` must believe, in the order of reading.
pub mod Run
