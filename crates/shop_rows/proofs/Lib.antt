-- rows that rise by their keys
pub mod Places
-- lists of keys, and which rows they name
pub mod Listed
pub mod NameLists
pub mod Named
pub mod Behind
-- sums of parts
pub mod Summed
pub mod Counting
-- rows made of others
pub mod Mapped
pub mod Packed
pub mod ByAct
-- lines of an order
pub mod ByLine
