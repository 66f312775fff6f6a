-- What a look at the open pieces makes of the tables, piece by piece.
pub mod Places
pub mod Desks
pub mod Looking
pub mod Naming
pub mod Ends
