pub mod Alike
pub mod Counts
pub mod Once
