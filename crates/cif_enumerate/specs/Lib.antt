pub mod TaintedPlaces
pub mod ExactWords
