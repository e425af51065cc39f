pub mod Falls
pub mod Refused
