pub mod Facts
pub mod KeptFrames
pub mod KeptState
pub mod HeldPieces
pub mod EventLists
