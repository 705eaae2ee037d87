pub mod TwoForEach
pub mod Permuted
pub mod NodeOrders
pub mod OrderPrefixes
pub mod DistinctEvents
pub mod Required
pub mod ListedArcs
