pub mod Classes
pub mod Filling
pub mod Grids
pub mod Rates
