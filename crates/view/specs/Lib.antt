-- What a reader of `view` must believe, in the order of reading.
pub mod View
pub mod Layers
pub mod Theorems
