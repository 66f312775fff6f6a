-- The words of the sheet's blocks and of its worst lateness.
pub mod Rows
