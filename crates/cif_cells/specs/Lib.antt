pub mod NetlistView
pub mod Building
pub mod ClockBit
pub mod Finding
pub mod Wires
