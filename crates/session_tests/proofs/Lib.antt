pub mod Standing
pub mod Engines
pub mod Configured
