pub mod Calls
pub mod Carrying
pub mod Later
pub mod Seen
