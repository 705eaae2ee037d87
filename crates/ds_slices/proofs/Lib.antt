pub mod TurnBits
pub mod PickedBits
pub mod LineBytes
pub mod ColumnWords
pub mod LinkedWords
pub mod LinkedTurns
