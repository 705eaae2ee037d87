-- In the order in which to read.
pub mod Handshakes
pub mod Expansion
pub mod Laws
pub mod Steps
