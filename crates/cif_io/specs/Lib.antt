pub mod Outside
pub mod Counts
pub mod Lists
pub mod ToldFiles
pub mod FailingCalls
