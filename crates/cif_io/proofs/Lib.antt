pub mod OutsideLaws
pub mod NamedFiles
