-- What a reader of `chains` must believe, in the order of reading.
pub mod Chains
