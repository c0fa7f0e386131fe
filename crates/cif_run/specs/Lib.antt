pub mod Readers
pub mod Runs
