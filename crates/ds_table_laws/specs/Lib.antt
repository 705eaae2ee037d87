-- In the order in which to read.
pub mod Known
pub mod DrawnTickets
pub mod TableCounts
pub mod Steps
pub mod TurnedPasses
pub mod Traces
pub mod Firings
pub mod Texts
