pub mod GeneratorWords
pub mod BuiltLists
pub mod TextSums
pub mod Computed
pub mod DistinctNumbers
pub mod DemoInRange
pub mod Accepts
