pub mod CellView
pub mod StateCells
