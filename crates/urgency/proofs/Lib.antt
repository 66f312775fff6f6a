-- From the contract's side to the steps', the tables filled, and the table of the open pieces.
pub mod Filled
pub mod Ranking
pub mod OpenTable
pub mod Planned
