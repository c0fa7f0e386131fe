pub mod CellLaws
pub mod OperandWidths
pub mod RegisterCells
