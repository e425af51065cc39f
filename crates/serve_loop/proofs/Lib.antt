pub mod Serving
pub mod Resting
