mod Bodies
pub mod Turns
