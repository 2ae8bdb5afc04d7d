pub mod Planning
pub mod Listing
pub mod Queries
