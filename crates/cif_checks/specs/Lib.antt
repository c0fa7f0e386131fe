pub mod Checks
pub mod InputNumbers
pub mod PortChecks
pub mod Known
