-- What a reader of `table` must believe, in the order of reading.
pub mod Limits
pub mod Table
pub mod Sound
pub mod Theorems
