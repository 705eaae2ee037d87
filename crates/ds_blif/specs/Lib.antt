-- In the order in which to read.
pub mod Head
pub mod Form
pub mod Fault
pub mod State
pub mod Parts
pub mod Text
