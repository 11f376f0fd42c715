pub mod Refusals
pub mod Values
pub mod Readings
