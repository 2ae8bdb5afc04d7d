pub mod Solutions
pub mod Bounds
pub mod Prices
pub mod UnitBounds
pub mod Orders
pub mod Planned
pub mod Stages
