-- What the proofs of this crate share.
pub mod RecordLaws
pub mod SheetLaws
pub mod Promised
