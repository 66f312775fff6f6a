-- The laws of the reader of one record, for the proofs of this crate and of those above it.
pub mod Judged
