pub mod Powers
pub mod Power
pub mod Logistic
