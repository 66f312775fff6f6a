-- The mathematics of one desk, of no job file. Entries have a number, a ready moment and a duration; `opens` says which
-- slots are open, `sooner` who goes first. In the order in which the files lean on each other:

-- counting slots; lists; plans; the order of urgency; opening hours
pub mod Cases
pub mod Count
pub mod Lists
pub mod Order
pub mod Hours
pub mod Plans
pub mod Allowed
-- the plan by layers, and the page's rule: one and the same plan
pub mod Layers
pub mod Rule
pub mod Obeyed
pub mod Renamed
pub mod Done
pub mod Finish
pub mod Links
-- no plan is ahead of it, and none has a smaller worst lateness
pub mod Work
pub mod Dominance
pub mod Lateness
-- its runs: how many, how long, where
pub mod Turns
pub mod Score
pub mod RunCount
pub mod RunSlots
pub mod RunTruth
pub mod RunOrder
-- the block method: the same plan again
pub mod Locality
pub mod Gathered
pub mod EntryOrder
pub mod SetAside
pub mod OneBlock
pub mod BlockMethod
pub mod BlockShape
