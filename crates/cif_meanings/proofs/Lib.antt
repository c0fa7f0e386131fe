pub mod PortLaws
pub mod RowLaws
pub mod MeaningLaws
pub mod ShiftLaws
pub mod ChoiceLaws
pub mod NumberMeanings
pub mod NumberCells
