pub mod ReadWords
pub mod HeldOperands
