pub mod Filling
pub mod ExactLaws
