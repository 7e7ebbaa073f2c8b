-- What a reader of `trial` must believe, in the order of reading.
pub mod Tried
pub mod Trials
pub mod Collected
