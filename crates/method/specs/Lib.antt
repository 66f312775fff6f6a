-- The block method on a board of stretches: the desk's slots, the board, and the method as it fills the board.
pub mod Hours
pub mod Board
pub mod Method
pub mod Sheet
