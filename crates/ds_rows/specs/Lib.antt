-- In the order in which to read.
pub mod Vector
pub mod Print
pub mod Nets
pub mod Worked
pub mod Log
pub mod Homes
pub mod StateText
pub mod Number
pub mod Texts
pub mod Lookup
