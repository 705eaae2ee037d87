-- In the order in which to read.
pub mod Order
pub mod Search
pub mod Rank
pub mod Free
pub mod Laws
