-- In the order in which to read.
pub mod Run
pub mod Event
pub mod Words
pub mod Sound
pub mod Log
pub mod Rule
pub mod Plays
pub mod Rows
pub mod Progress
pub mod Laws
