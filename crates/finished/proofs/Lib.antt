-- What follows from a finished plan.
pub mod FinishedLaws
