pub mod Told
pub mod Drives
pub mod Kept
pub mod Inits
pub mod Nets
pub mod Clocks
pub mod Reads
pub mod CellReads
