-- How the definitions over the tables of links and of open pieces go on by one desk or link.
pub mod Passed
pub mod Opened
pub mod Closed
pub mod Marked
