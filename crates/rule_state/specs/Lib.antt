pub mod Marks
pub mod MarkView
pub mod RegisterTerms
pub mod RegisterTaints
pub mod MemoryTaints
