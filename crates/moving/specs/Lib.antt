-- What one desk's slots make of its piece and of its last run.
pub mod LastRuns
pub mod Worked
