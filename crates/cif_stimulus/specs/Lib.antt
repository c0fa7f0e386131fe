pub mod Versions
pub mod StimulusView
pub mod Names
pub mod Inside
pub mod Held
pub mod Fitting
pub mod Places
pub mod StimulusText
