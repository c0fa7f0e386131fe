pub mod Starts
pub mod NamePlaces
pub mod Fits
pub mod LineOrder
pub mod LinesRead
