-- What the proofs of this crate share.
pub mod FirstFrom
pub mod StretchLaws
pub mod Stores
pub mod TwosComplement
pub mod Front
pub mod PutLaws
