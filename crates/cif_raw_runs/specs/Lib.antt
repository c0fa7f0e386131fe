pub mod Assigned
pub mod Places
pub mod Ranks
pub mod Given
