-- The open pieces of a job as a struct.
pub mod Open
