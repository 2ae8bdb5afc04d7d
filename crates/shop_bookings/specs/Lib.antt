pub mod Bookings
pub mod Reported
