pub mod Showing
pub mod Refused
