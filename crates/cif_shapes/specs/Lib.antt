pub mod Shapes
pub mod Untainted
pub mod CellRules
