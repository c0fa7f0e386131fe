pub mod WrongPlace
pub mod Shape
pub mod Top
pub mod Answers
pub mod SeenMembers
pub mod WrittenNetlist
pub mod Writable
