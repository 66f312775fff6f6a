-- What the proofs of this crate share.
pub mod Places
pub mod FormPlaces
pub mod OneAnswer
