-- What a reader of `explore` must believe, in the order of reading.
pub mod Explore
