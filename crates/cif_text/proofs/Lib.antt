pub mod BoolTests
pub mod Pieces
pub mod Decoding
pub mod Digits
pub mod Coding
pub mod Decimals
