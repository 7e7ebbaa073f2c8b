-- What a reader of `refute` must believe, in the order of reading.
pub mod Searched
