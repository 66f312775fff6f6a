-- Laws of the lines.
pub mod LineLaws
