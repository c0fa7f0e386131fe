pub mod StartLaws
pub mod StartTable
pub mod StartWords
