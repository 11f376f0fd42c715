pub mod Lent
pub mod Worths
