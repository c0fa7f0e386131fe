pub mod CellWords
pub mod Rows
pub mod StateWords
pub mod Memories
pub mod ShownBits
