pub mod Bounds
pub mod Raising
