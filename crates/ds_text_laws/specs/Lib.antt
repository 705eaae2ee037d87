-- In the order in which to read.
pub mod BareJobs
pub mod BlifOrder
pub mod BlifParts
pub mod BlifWorked
pub mod BlifText
pub mod Printable
pub mod BlifLaws
pub mod FlatCopies
pub mod FlatCircles
pub mod FlatWorked
pub mod FlatLaws
pub mod AstgText
pub mod AstgLaws
pub mod AstgPlaces
pub mod AstgWorked
