pub mod Choices
pub mod Steering
