pub mod Proposing
pub mod Wrong
