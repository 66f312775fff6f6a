-- The desks that work looked at one after the other.
pub mod Spent
pub mod Later
