-- Nothing is defined here but the notions that the laws speak of.
pub mod Leads
pub mod Held
