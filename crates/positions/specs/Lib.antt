-- What a reader of `positions` must believe, in the order of reading.
pub mod Positions
