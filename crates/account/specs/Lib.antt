pub mod Fixed
pub mod State
pub mod Price
