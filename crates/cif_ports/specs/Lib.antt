pub mod ReadBits
