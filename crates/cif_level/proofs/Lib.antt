pub mod Driving
pub mod Outputs
pub mod RingLaws
pub mod Searches
pub mod SearchSteps
pub mod LeastNames
