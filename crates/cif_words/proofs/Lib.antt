pub mod NarrowPorts
pub mod HasForms
pub mod SumForms
