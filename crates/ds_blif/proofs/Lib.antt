pub mod Distinct
pub mod FirstFault
pub mod Forms
pub mod NoFault
pub mod UsePairs
pub mod PartsFit
pub mod WellFormed
