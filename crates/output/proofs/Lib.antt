-- What the proofs of this crate share.
pub mod FigureLaws
pub mod ChainedLaws
pub mod WrittenLaws
pub mod AlongLaws
pub mod DeskByDesk
