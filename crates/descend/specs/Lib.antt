-- What a reader of `descend` must believe.
pub mod Descend
