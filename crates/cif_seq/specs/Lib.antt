pub mod Stored
pub mod Inputs
pub mod Cases
pub mod CaseView
pub mod States
pub mod GivenAt
pub mod FrameView
