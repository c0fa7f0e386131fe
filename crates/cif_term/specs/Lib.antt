pub mod Formulas
pub mod TermView
pub mod CellTaints
pub mod Extended
pub mod Scopes
