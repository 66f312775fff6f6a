-- What the tables of a finished plan hold, and the moments made of them.
pub mod Planned
