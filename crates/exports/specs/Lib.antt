pub mod Status
pub mod Numbers
pub mod Tables
pub mod Papers
pub mod Room
