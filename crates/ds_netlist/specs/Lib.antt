-- In the order in which to read.
pub mod Drivers
pub mod Fault
pub mod Named
pub mod Steps
pub mod Edges
pub mod Laws
pub mod Verdict
