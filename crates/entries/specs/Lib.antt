-- The words of a lent slice of entries: what it holds, and its order as plain numbers.
pub mod Lent
pub mod Keys
