pub mod NumbersOfBits
