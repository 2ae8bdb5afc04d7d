-- a ledger beside a storage, one in memory, and a storage in tables
pub mod LedgerBooks
pub mod MemBooks
pub mod Storing
pub mod Entries
pub mod SqlBooks
pub mod EarlierBooks
pub mod Checking
pub mod Crashes
pub mod Loading
pub mod Stories
