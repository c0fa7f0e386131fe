pub mod Residues
pub mod Carries
pub mod Integers
pub mod Meanings
