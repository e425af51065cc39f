pub mod Moments
pub mod Shown
pub mod Order
pub mod Refused
