pub mod Stepping
mod Transmitted
