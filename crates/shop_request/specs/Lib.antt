pub mod Routes
pub mod Heads
pub mod Addresses
pub mod Guards
pub mod Reading
pub mod Requests
pub mod Parses
