pub mod Bitwise
pub mod BitwiseTaints
pub mod Majorities
pub mod TruthValues
pub mod HeldOutputs
pub mod WiringForms
pub mod LogicFormulaWords
pub mod LogicCells
