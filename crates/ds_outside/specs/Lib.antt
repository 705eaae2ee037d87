-- In the order in which to read.
pub mod Fault
pub mod Held
pub mod Written
pub mod Handing
pub mod Writes
pub mod Pen
pub mod Memory
