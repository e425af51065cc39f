pub mod Configured
pub mod Hiring
pub mod Ends
pub mod Ruled
