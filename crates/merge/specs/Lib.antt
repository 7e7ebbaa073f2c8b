-- What a reader of `merge` must believe, in the order of reading.
pub mod Merge
pub mod Theorems
pub mod Found
