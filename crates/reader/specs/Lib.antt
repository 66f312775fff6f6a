-- What the contracts of the reading of a whole file cite besides the rules.
pub mod Rest
pub mod Outcome
