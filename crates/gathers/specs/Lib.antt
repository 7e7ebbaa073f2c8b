-- What a reader of `gathers` must believe, in the order of reading.
pub mod Gathers
