-- The words of one desk's entries in order.
pub mod Ordered
