-- In the order in which to read.
pub mod Control
pub mod Orders
pub mod Part
