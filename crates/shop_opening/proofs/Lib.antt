-- files that held no database
pub mod Nothing
-- what an opening finds, and what it gives
pub mod Found
-- which fault each refusal is
pub mod Faults
-- what may be left after messages that were answered
pub mod After
-- an image that a stop left
pub mod Left
-- a file in memory
pub mod InMemory
-- what a close leaves
pub mod Merged
