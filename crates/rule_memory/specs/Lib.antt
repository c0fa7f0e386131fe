pub mod MemoryFormulas
pub mod MemoryTaints
pub mod MemoryTermView
