pub mod Sums
pub mod Pairs
pub mod HeaderLaws
pub mod FrameLaws
pub mod LogLaws
