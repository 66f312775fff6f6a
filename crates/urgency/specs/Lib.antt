-- The contract of the plan.
pub mod Plan
