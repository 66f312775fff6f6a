-- The laws of a job file read whole: the rest of a reading, what its loop keeps, and the places of its refusals.
pub mod Rest
pub mod Taken
pub mod Refusals
