-- In the order in which to read.
pub mod TurnstileRule
pub mod Shown
pub mod Whole
pub mod Stopped
pub mod Work
pub mod FiringOrder
pub mod Parts
