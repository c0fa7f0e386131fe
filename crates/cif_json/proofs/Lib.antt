pub mod MemberLaws
pub mod Folds
pub mod NonzeroNumbers
pub mod Binary
pub mod TopLaws
pub mod RefusedBytes
pub mod OrderedData
pub mod OrderedModule
mod LineEnd
mod ReadBack
mod WriterSteps
mod PlainFile
mod FileNetlist
mod NetlistRoundTrip
mod TextData
mod FitModule
