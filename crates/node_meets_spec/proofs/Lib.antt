mod Takens
pub mod Sending
mod Acting
pub mod Stepping
pub mod Starting
pub mod FirstDisk
