-- What the records and figures are, in terms of the tables of a finished plan.
pub mod Written
pub mod Late
pub mod Chained
