pub mod BarCounts
pub mod WantEntries
pub mod JoinedEntries
pub mod OfferedPieces
pub mod RaisedCells
pub mod LevelCounts
pub mod DividedSpans
