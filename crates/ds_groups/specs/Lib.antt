-- In the order in which to read.
pub mod Match
pub mod Pieces
pub mod Names
pub mod Read
pub mod Stand
pub mod Tail
pub mod Copy
pub mod Latest
pub mod Keys
pub mod Indexed
pub mod Taking
pub mod Members
pub mod Step
pub mod Worked
pub mod Written
pub mod Laws
