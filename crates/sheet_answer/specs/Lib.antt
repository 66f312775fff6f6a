-- What the contracts of this crate cite besides the rules and the promises.
pub mod Listed
pub mod Refused
pub mod SheetFile
