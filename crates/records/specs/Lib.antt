-- What the contracts of this crate cite besides the rules.
pub mod Handed
pub mod Laid
pub mod Puts
