-- In the order in which to read.
pub mod Given
pub mod Sums
pub mod Masks
pub mod Lowered
pub mod Codes
pub mod Accept
pub mod Fault
pub mod Laws
pub mod Ranked
pub mod Steps
