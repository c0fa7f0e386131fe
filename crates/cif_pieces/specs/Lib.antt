pub mod Parts
pub mod Plans
pub mod Pieces
pub mod Filled
pub mod PlanView
pub mod PieceView
