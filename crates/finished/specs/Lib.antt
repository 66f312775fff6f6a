-- A finished plan.
pub mod Finished
