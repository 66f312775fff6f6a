-- The words of the demands: accepted files, rings, slots, allowed plans.
pub mod Accepted
pub mod EverySlot
pub mod Allowed
pub mod Promises
