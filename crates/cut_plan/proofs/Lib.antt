-- what holds where there is no fault
pub mod Faultless
-- bars
pub mod BarPieces
pub mod EntryMaps
-- sheets
pub mod SheetPlans
