pub mod Names
pub mod Refusals
pub mod Taken
pub mod Shifts
pub mod Stimuli
pub mod Additions
pub mod Augmented
