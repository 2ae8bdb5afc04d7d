-- what rows in memory stand for, and what is handed out
pub mod Orders
pub mod Replaced
pub mod Held
pub mod Behind
pub mod Tallied
pub mod Handed
-- the last number of a terminal
pub mod Lasts
-- the pieces of an order, of a batch and of a unit
pub mod Filed
pub mod ReportedPieces
-- jobs and entries in an index
pub mod JobsFiled
pub mod EntriesFiled
-- the lines of an order
pub mod ReportedLines
-- rows in a ledger, and what lasts beside it
pub mod KnownRows
pub mod Loaded
-- when jobs were done or broken
pub mod Ends
-- which entries a story shows
pub mod AboutOrders
-- the day on which a job is due
pub mod DueJobs
