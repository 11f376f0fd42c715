pub mod Numbers
pub mod Sum
