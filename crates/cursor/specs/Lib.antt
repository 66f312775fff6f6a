-- What the contracts of the reader of one record cite besides the rules.
pub mod JudgedAs
