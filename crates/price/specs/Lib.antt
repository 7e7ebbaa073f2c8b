-- What a reader of `price` must believe, in the order of reading.
pub mod Tariff
pub mod Price
pub mod Theorems
