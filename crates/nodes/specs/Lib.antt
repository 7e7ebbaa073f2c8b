-- What a reader of `nodes` must believe.
pub mod Nodes
