pub mod Shops
pub mod Openings
pub mod Causes
pub mod Stops
