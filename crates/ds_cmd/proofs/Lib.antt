pub mod Chained
pub mod ParsedJob
pub mod NumberWords
pub mod AllowedNumbers
pub mod MemoryAnswers
