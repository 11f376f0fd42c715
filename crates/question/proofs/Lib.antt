pub mod Ranges
pub mod Chunks
pub mod Over
pub mod Bodies
mod Numbers
pub mod Pairs
pub mod Events
pub mod Held
pub mod Starting
