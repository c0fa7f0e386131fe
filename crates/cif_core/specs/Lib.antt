pub mod Name
pub mod Machine
pub mod Frames
pub mod Replies
pub mod Kept
pub mod Events
