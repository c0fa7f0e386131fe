pub mod AnswerText
pub mod Legal
pub mod LineForms
pub mod Scripts
pub mod ScriptText
pub mod Seen
pub mod ShownWires
