pub mod Workers
pub mod Sessions
pub mod Pinning
pub mod Shown
