pub mod Turns
pub mod Purposes
pub mod Staying
pub mod Refused
