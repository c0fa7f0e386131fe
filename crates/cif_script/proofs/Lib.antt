pub mod FoundWires
pub mod Kept
pub mod Places
pub mod Readings
pub mod SaidLines
pub mod Sessions
pub mod Tables
pub mod Transcripts
