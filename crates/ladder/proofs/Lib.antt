pub mod Arrays
pub mod Ranges
pub mod Filling
pub mod Tabulating
pub mod Worths
pub mod Accepted
pub mod Ascending
pub mod Cases
pub mod Entries
pub mod TableSound
mod Examples
