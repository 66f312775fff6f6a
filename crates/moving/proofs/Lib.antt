-- How the definitions over the tables go on by one desk, and by the ways the code takes.
pub mod Worked
pub mod Noted
