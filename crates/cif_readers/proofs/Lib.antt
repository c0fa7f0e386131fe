pub mod NoteLaws
mod MarkLaws
mod Gathering
mod Counting
mod TableLaws
