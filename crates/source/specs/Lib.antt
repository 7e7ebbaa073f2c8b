-- What a reader of `source` must believe, in the order of reading.
pub mod Rearranged
pub mod Source
