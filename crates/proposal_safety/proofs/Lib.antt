pub mod Counting
pub mod Pending
pub mod Refused
