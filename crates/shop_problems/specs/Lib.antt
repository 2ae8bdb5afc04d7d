pub mod Judged
pub mod Orders
pub mod Steps
pub mod Stock
pub mod Wants
pub mod Wholes
