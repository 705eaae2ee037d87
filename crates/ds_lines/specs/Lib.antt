-- In the order in which to read.
pub mod Line
pub mod Words
pub mod First
pub mod Fault
pub mod Worked
pub mod Joined
pub mod Print
pub mod Window
pub mod Laws
pub mod Span
pub mod Draft
pub mod Names
