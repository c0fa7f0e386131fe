pub mod RawLaws
pub mod InputLaws
pub mod MaskLaws
pub mod CellChecks
pub mod FirstFaults
pub mod KnownCells
