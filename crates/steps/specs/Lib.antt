pub mod bridges
