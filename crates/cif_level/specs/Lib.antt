pub mod Feeding
pub mod LevelFaults
pub mod Rings
pub mod Searching
