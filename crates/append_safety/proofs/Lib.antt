pub mod Appending
pub mod Kept
pub mod Later
pub mod Refused
