-- Laws by step: the board in its list, a block gathered, marks, who is set aside.
pub mod Stored
pub mod Gathering
pub mod Marked
pub mod Chosen
