-- What a reader of `causal` must believe, in the order of reading.
pub mod Limits
pub mod Played
