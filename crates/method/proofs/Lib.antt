-- In the order in which the files lean on each other:

-- laws of the board; sets in order and their blocks; the board holds the block method
pub mod Held
pub mod Sets
pub mod Parts
pub mod Solved
pub mod SameLinks
-- its runs, by slot and as the code keeps them
pub mod RunsLaid
pub mod Turned
-- one desk of a job: the block method agrees with the plan; the worst lateness over the runs
pub mod DeskEnd
pub mod OfDesk
pub mod Late
