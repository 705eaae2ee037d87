-- In the order in which to read.
pub mod Bounded
pub mod Stream
pub mod StreamLaws
pub mod StreamWorked
pub mod Next
pub mod Alike
pub mod Filling
pub mod Plain
pub mod Word
