-- One step of the plan over plain tables: the decision, the slots worked, the log of the runs, and the links.
pub mod Tables
pub mod States
pub mod Opening
pub mod Choice
pub mod Work
pub mod Log
pub mod Handover
pub mod Keys
