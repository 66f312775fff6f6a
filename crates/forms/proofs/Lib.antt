-- Laws of rows judged one after another, of the numbers in them, and of their records one behind the other.
pub mod Chunks
pub mod InTurn
pub mod RowsPut
