-- The words of the steps: entries out of tables and lists of piece numbers; marks and who is set aside.
pub mod Listed
pub mod Aside
