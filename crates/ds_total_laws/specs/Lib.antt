-- In the order in which to read.
pub mod DecidedExpansions
pub mod FileBytes
pub mod Absent
pub mod Decided
pub mod Statuses
pub mod Periods
