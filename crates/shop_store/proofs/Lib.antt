-- a ledger beside a storage, and a storage in tables
pub mod LedgerBooks
pub mod InSteps
pub mod InMemory
pub mod Stored
pub mod NextEntries
-- totals that are sums of parts
pub mod Counting
-- what an adopt makes of tables
pub mod Adopting
pub mod Checked
pub mod EarlierContents
pub mod RenewedBeside
pub mod Renewals
pub mod Commits
-- a ledger that is loaded
pub mod HeldEither
pub mod Chunks
pub mod Loads
pub mod LoadedParts
-- what lists the orders of jobs
pub mod UsesQuery
