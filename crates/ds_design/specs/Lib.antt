-- In the order in which to read.
pub mod Circuit
pub mod Groups
pub mod InRange
pub mod Accepted
pub mod Levels
pub mod Placed
pub mod Banked
pub mod Valuation
pub mod Reach
pub mod Rows
pub mod Run
pub mod Trace
pub mod Windows
pub mod Laws
pub mod Source
