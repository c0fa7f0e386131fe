pub mod Marking
pub mod Walks
pub mod Closing
pub mod Listing
pub mod Planned
pub mod Running
pub mod Joining
