-- Laws of stretches of slots, by topic.
pub mod Standing
pub mod Stretch
pub mod Growth
pub mod Last
pub mod Score
pub mod Ended
