-- In the order in which to read.
pub mod Links
pub mod Sequence
