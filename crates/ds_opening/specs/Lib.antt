-- In the order in which to read.
pub mod Classes
pub mod Gaps
pub mod Ranked
pub mod Lacking
pub mod Numbers
pub mod Members
pub mod Scheduled
pub mod Lists
pub mod Groups
pub mod Reads
pub mod NetSlots
pub mod Seen
pub mod Packed
pub mod TurnOfOpenings
pub mod Foreseen
pub mod Learnt
pub mod Noted
