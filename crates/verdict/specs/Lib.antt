-- What a reader of `verdict` must believe, in the order of reading.
pub mod Judgements
