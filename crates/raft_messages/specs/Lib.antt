pub mod Kinds
pub mod Grants
pub mod Entries
pub mod Messages
pub mod Reading
pub mod Servers
