pub mod HeldWords
pub mod NarrowCells
