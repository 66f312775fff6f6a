-- What the contracts of the judgement of one record cite besides the rules.
pub mod Says
pub mod Values
pub mod Entries
