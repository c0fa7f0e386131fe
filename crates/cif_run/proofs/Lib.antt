pub mod Crossing
pub mod Listing
pub mod Reading
pub mod Texts
