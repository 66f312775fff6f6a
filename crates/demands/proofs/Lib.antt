-- The theorems, by demand.
pub mod Accepting
pub mod Rings
pub mod Finishes
pub mod EachSlot
pub mod Starts
pub mod OneDesk
pub mod Agreement
pub mod Best
pub mod Runs
pub mod Answers
pub mod Sheets
pub mod FormRefusals
pub mod Writer
pub mod Rewritten
pub mod Latest
