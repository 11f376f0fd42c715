pub mod Lists
pub mod Types
pub mod Columns
pub mod Front
pub mod Tables
pub mod Airs
pub mod bridges
