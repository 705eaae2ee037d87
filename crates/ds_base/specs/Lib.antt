-- In the order in which to read.
pub mod Limit
pub mod Greatest
pub mod Refusal
pub mod Values
pub mod Word
pub mod Lent
pub mod Turns
pub mod Scratch
pub mod LentNets
