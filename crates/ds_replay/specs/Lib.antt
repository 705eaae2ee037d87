-- In the order in which to read.
pub mod Word
pub mod Replay
pub mod Replayed
pub mod Legal
pub mod Printed
pub mod Worked
pub mod Step
pub mod OpenLines
pub mod ReplayText
pub mod Kept
