pub mod UnitBounds
-- tables
pub mod OfferedRows
pub mod JoinedRows
pub mod SheetTables
pub mod BestWorths
-- between a sheet and the same in steps
pub mod SheetSteps
pub mod RoundedUp
pub mod KeptLeaves
pub mod PlacedLeaves
