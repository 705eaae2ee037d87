-- In the order in which to read.
pub mod Demo
pub mod Fold
pub mod Laws
pub mod Worked
