-- The words of the block sheet's code: what it is made of, and the links of one desk.
pub mod Sheet
pub mod Own
