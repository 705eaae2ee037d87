-- In the order in which to read.
pub mod Ranked
pub mod DecidedDesigns
pub mod Periods
pub mod OnePeriod
pub mod Fewest
pub mod OneSchedule
pub mod Listed
pub mod Paced
pub mod Clocked
pub mod TotalSplits
pub mod CountedArcs
pub mod Walks
pub mod DecidedGraphs
pub mod Plans
