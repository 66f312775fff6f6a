-- Laws of latest moments in tables.
pub mod TimedLaws
