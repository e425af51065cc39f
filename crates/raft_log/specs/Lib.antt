pub mod Agreeing
pub mod Places
pub mod Answers
pub mod Rows
pub mod Compacting
