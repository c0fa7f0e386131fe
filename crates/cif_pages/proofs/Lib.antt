pub mod PagePlaces
pub mod PageCuts
