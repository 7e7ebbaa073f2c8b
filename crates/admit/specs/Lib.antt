-- What a reader of `admit` must believe, in the order of reading.
pub mod Admit
