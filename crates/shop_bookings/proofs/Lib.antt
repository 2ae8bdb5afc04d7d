pub mod Together
pub mod Values
pub mod Asked
pub mod Fitting
pub mod Slots
pub mod Pieces
pub mod Booked
