pub mod Calls
pub mod Clients
pub mod Later
pub mod Seen
pub mod Sending
pub mod Sizes
