-- Laws by topic, which other crates may cite: of chains, of links in tables and the job they make, of rings and orders.
pub mod ChainLaws
pub mod LinkLaws
pub mod Counting
pub mod QueueLaws
pub mod PassingLaws
pub mod RingLaws
pub mod Placing
