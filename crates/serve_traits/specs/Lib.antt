pub mod Told
pub mod Stepping
pub mod Looping
pub mod Memory
