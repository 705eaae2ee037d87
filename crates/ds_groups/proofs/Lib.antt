-- Lemmas.
pub mod Matching
pub mod Falling
pub mod PatternTable
pub mod KeyNets
pub mod Stands
pub mod Tails
pub mod Indexing
pub mod Takings
pub mod DrivenNets
pub mod PatternWords
pub mod Copies
pub mod GroupsSoFar
pub mod Membered
pub mod PiecesInARow
pub mod Disjoint
pub mod ReadAgain
