pub mod ByReads
pub mod Unique
pub mod Covering
pub mod Passes
pub mod Begun
pub mod Resting
