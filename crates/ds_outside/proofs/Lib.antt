pub mod Appended
pub mod PieceSequence
pub mod PiecewiseRead
pub mod Handing
pub mod Pens
