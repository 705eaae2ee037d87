-- In the order in which to read.
pub mod Net
pub mod Command
pub mod Copies
pub mod Bare
pub mod Keys
pub mod Interface
pub mod Stack
pub mod Run
pub mod Use
pub mod Turn
