pub mod Resting
pub mod Wrong
