-- names, codes and message IDs, and lists
pub mod Same
pub mod Elements
-- rows, messages and refusals
pub mod Columns
pub mod SameRows
pub mod Refusals
pub mod Messages
pub mod Journal
pub mod Notes
pub mod Readings
pub mod Keeping
-- what a book contains, what a change makes of it, and what holds of it
pub mod Content
pub mod Lists
pub mod WellFormed
-- parts that are handed out one at a time
pub mod Visits
