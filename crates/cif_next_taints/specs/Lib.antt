pub mod Next
pub mod Ports
