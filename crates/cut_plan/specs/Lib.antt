pub mod Faults
pub mod Bounds
pub mod Proposals
pub mod Sheets
pub mod Lengths
pub mod Messages
