pub mod Firsts
pub mod Grouped
pub mod FirstRows
pub mod DayRanks
pub mod StockFacts
pub mod EntryLists
pub mod NamedOnce
pub mod Reported
-- the largest rest that is kept
pub mod LargestRests
