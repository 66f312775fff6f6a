-- The laws of the judgements, for the proofs of this crate and of those above it.
pub mod InTurn
