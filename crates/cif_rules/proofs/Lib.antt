pub mod KindCovers
pub mod TermWords
pub mod CellFormulas
