pub mod WordForms
