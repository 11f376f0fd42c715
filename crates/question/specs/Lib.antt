pub mod Over
pub mod Numbers
pub mod Bytes
pub mod Body
pub mod File
pub mod Start
