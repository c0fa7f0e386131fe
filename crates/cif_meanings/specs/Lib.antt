pub mod CellPorts
pub mod NumberKinds
