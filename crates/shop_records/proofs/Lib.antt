-- numbers, lists and finite maps
pub mod Basics
pub mod Sums
pub mod Puts
pub mod Entries
-- lines of orders after a change that fits
pub mod LinesKept
-- how many lines an order has, and its last one
pub mod LineCounts
-- the codes of orders, in order
pub mod OrderCodes
-- the names of words, which differ
pub mod WordNames
-- parts that are the same by a test
pub mod SameRows
-- the definitions on small examples
pub mod NoteExamples
