pub mod Appending
pub mod Wrong
