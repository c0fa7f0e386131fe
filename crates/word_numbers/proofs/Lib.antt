pub mod Digits
pub mod FlagLaws
pub mod MaskLaws
pub mod MoveLaws
pub mod OneLaws
