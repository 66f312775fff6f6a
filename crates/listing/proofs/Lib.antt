-- Laws of the pages, line by line.
pub mod PageLaws
