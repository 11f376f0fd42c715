pub mod FullAir
