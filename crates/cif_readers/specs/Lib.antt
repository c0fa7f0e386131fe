pub mod Reads
pub mod Places
pub mod Readings
pub mod Counts
pub mod Tables
