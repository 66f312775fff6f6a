-- What the contracts of this crate say, one file for each part of its source, and the links as tables.
pub mod Chains
pub mod Links
pub mod Queue
pub mod Rings
