-- In the order in which to read.
pub mod Bus
pub mod Cluster
pub mod Grouped
pub mod Keys
pub mod Groups
pub mod Split
pub mod Nets
pub mod Keyed
pub mod Search
pub mod Edges
pub mod Worked
pub mod Laws
pub mod Taken
pub mod Settled
pub mod Cones
