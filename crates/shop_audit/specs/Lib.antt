pub mod Whole
pub mod Compared
pub mod Lines
pub mod Pages
pub mod Rows
