pub mod Shadows
pub mod ReadForms
pub mod SelectForms
