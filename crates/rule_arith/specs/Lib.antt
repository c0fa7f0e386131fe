pub mod Bounds
pub mod Cases
pub mod Addends
pub mod SumFormulas
pub mod OrderFormulas
pub mod AluFormulas
pub mod EqualFormulas
pub mod ArithFormulas
