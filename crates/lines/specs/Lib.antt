-- The lines of the listing, out of plain numbers and out of tables.
pub mod Lines
