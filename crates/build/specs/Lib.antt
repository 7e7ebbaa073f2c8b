-- What a reader of `build` must believe, in the order of reading.
pub mod Build
