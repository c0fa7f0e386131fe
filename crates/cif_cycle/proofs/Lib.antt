pub mod Gathered
pub mod SourceWords
pub mod StateBits
pub mod PutRows
pub mod ResetWords
pub mod MemoryReads
pub mod WrittenPorts
pub mod RegisterWords
