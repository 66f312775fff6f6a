-- The links of one desk, one by one; and one desk of a job: its rows, its runs, and the worst lateness over them.
pub mod Owning
pub mod DeskSheet
