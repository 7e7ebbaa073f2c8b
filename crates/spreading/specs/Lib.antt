-- What a reader of `spreading` must believe, in the order of reading.
pub mod Spread
pub mod Theorems
