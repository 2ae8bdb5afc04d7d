pub mod Queries
pub mod Reported
