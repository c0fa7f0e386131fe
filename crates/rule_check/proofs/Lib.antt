pub mod MeaningWidths
pub mod ExactRules
pub mod OperandWords
