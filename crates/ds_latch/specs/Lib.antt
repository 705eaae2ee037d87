-- In the order in which to read.
pub mod Node
pub mod Order
pub mod Plan
pub mod Latches
pub mod Numbered
pub mod Firing
pub mod Flow
pub mod Controls
pub mod Windows
pub mod Transparent
pub mod Laws
pub mod Headline
