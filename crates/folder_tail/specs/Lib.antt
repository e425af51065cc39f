pub mod Last
pub mod Heads
pub mod Search
pub mod Tails
