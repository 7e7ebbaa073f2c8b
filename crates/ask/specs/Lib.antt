-- What a reader of `ask` must believe, in the order of reading.
pub mod Plan
