-- In the order in which to read.
pub mod Ranged
pub mod Base
pub mod Chained
pub mod Into
pub mod Looks
pub mod Stepped
pub mod HistoryList
pub mod Flight
pub mod Noted
pub mod Laid
pub mod Indexed
pub mod Separated
pub mod Joined
pub mod Showing
pub mod Begun
pub mod Spread
pub mod Unpacked
