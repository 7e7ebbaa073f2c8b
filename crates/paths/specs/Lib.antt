-- What a reader of `paths` must believe, in the order of reading.
pub mod Paths
pub mod Places
pub mod Progress
