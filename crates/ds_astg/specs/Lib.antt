-- In the order in which to read.
pub mod Pieces
pub mod Text
pub mod Word
pub mod Turn
pub mod Signals
pub mod Node
pub mod Place
pub mod Keys
pub mod Links
pub mod Marking
pub mod Line
pub mod Read
pub mod Sound
pub mod Numbered
pub mod Steps
