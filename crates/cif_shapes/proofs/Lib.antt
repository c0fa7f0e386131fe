pub mod SameShape
pub mod ShapeTaints
pub mod NoTaint
pub mod OutputWidths
pub mod Tables
pub mod SameKind
pub mod RulePlaces
