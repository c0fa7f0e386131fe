pub mod CoarseWords
pub mod CoarseShapes
pub mod CoarseDivisions
pub mod CoarseProducts
pub mod CoarseQuotients
pub mod CoarseKinds
pub mod CoarseTerms
