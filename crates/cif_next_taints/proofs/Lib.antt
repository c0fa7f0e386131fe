pub mod Joins
pub mod RegisterLaws
pub mod Parts
pub mod Known
pub mod PortLaws
pub mod WriteLaws
