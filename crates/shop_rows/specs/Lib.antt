pub mod Rows
pub mod Keys
pub mod Sums
pub mod Adding
pub mod Open
pub mod PartRows
pub mod SameParts
pub mod Lines
