pub mod Targets
pub mod SetLaws
pub mod BarLaws
pub mod OperandLaws
