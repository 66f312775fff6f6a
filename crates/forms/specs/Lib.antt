-- What the contracts of the rows of a form cite besides the rules.
pub mod Rows
pub mod Kinds
pub mod Judged
pub mod Written
