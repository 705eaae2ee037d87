-- In the order in which to read.
pub mod Snapshot
pub mod Fired
pub mod Ready
pub mod Laws
pub mod StoredRows
pub mod Feeds
pub mod Turn
pub mod First
pub mod Inside
