pub mod Rounded
pub mod Bound
pub mod Table
pub mod Kept
