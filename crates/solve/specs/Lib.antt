-- What cutting and solving ask, and what they leave on the board.
pub mod Solving
