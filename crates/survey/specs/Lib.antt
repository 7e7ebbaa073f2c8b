-- What a reader of `survey` must believe, in the order of reading.
pub mod Survey
