pub mod Calls
pub mod Reads
pub mod Fresh
pub mod bridges
