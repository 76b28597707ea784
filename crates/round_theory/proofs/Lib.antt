pub mod SameEntries
pub mod OneRound
pub mod Counts
pub mod FirstRedraw
pub mod StrictBetween
pub mod Rounds
pub mod Arrival
