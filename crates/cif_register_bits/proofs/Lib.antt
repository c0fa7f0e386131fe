pub mod SourceWidths
pub mod SourceBits
pub mod SteeringLaws
pub mod ControlBits
