pub mod Evaluates
pub mod Shown
