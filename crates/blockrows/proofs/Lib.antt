-- Laws of the rows of the first cutting and of the worst lateness.
pub mod Worst
pub mod Recording
