pub mod Makings
pub mod Computing
pub mod Built
