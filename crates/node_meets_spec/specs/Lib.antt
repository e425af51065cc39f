pub mod Comings
pub mod Steps
pub mod Starts
