-- In the order in which to read.
pub mod Appends
pub mod Laws
pub mod Loop
pub mod Words
