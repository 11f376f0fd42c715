pub mod Lists
pub mod Lowest
pub mod Echo
pub mod Booking
pub mod Tries
pub mod Transmission
pub mod Check
pub mod bridges
