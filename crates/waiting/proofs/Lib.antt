pub mod Deadline
pub mod Tries
pub mod Sound
pub mod Waiting
