-- What the contracts of this crate cite: a field put.
pub mod Fields
