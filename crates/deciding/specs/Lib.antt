-- What a look at the open pieces keeps for each desk.
pub mod Look
