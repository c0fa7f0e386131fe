pub mod Extensions
pub mod Chances
pub mod LogicWords
pub mod LogicForms
pub mod FormOf
