pub mod Sets
pub mod Pass
pub mod Ageing
