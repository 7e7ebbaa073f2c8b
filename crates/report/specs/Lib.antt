-- What a reader of `report` must believe, in the order of reading.
pub mod Report
