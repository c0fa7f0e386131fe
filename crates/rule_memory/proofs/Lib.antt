pub mod PortValues
pub mod StoredTaint
pub mod JoinedPorts
pub mod Flags
pub mod Forms
pub mod TermLaws
pub mod Examples
