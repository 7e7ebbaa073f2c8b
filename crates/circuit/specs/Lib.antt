-- What a reader of `circuit` must believe, in the order of reading.
pub mod Lists
pub mod Found
pub mod Limits
pub mod Circuit
pub mod Frames
pub mod WellFormed
pub mod Theorems
pub mod Examples
