-- What the laws of stretches speak of: waits and ready moments of the pieces, runs that grow with the slots, and the
-- count that bounds the runs.
pub mod Standing
pub mod Stretch
pub mod Growth
