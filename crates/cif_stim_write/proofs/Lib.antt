pub mod WrittenLines
pub mod SaidLines
pub mod RoundTrip
pub mod WrittenParts
