-- what a book promises
pub mod Failures
pub mod Books
pub mod FoundJobs
pub mod Kept
-- rows and texts in memory
pub mod Orders
pub mod Memory
pub mod Equal
pub mod Tallies
-- what is filed in an index
pub mod Filing
pub mod Pieces
pub mod FiledJobs
pub mod FiledEntries
-- rows in a ledger, and what lasts beside it
pub mod KeptUp
pub mod Ledgers
pub mod EndRows
pub mod Ends
pub mod Storages
pub mod MemStorages
pub mod Loading
pub mod DueJobs
-- which entries a story shows
pub mod Stories
