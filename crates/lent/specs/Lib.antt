-- What a reader of `lent` must believe, in the order of reading.
pub mod Lent
