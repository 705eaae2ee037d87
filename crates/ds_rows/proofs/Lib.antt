pub mod RowText
pub mod RowsSoFar
pub mod PrintedRows
pub mod JoinedAtPlace
pub mod ValueWords
pub mod RegisterHomes
pub mod DecimalDigits
pub mod FirstPlaces
