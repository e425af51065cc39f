pub mod Resting
pub mod Refused
