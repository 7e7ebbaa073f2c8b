-- The proofs of `survey`: what is explored of a circuit whose signals are built, and the stages of a survey.
pub mod Subject
pub mod Surveying
