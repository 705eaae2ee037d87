-- In the order in which to read.
pub mod Turns
pub mod Picked
pub mod Linked
pub mod Ready
pub mod Bytes
