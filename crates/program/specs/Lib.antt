-- What a reader of `program` must believe, in the order of reading.
pub mod Program
