pub mod PutWords
pub mod HeldOutputs
