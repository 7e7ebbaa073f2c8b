-- What a reader of `write` must believe.
pub mod Write
