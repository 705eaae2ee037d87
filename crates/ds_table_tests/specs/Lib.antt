pub mod Toggle
pub mod Trio
