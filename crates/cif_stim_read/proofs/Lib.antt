pub mod GivenNames
pub mod Narrow
pub mod LineForms
pub mod LineSteps
pub mod Heads
