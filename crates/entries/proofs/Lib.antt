-- Keys in order, and entries in the order of their keys.
pub mod OneOrder
pub mod ByKeys
