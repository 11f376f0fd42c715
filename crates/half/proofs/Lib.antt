pub mod Powers
pub mod InversePower
pub mod Range
pub mod Fraction
pub mod Places
pub mod Steps
pub mod Taken
pub mod Ageing
