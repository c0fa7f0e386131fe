pub mod Places
pub mod Supports
pub mod Dependence
pub mod Chains
