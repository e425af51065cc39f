pub mod Roles
pub mod Messages
pub mod Effects
pub mod Nodes
pub mod Steps
pub mod Queries
pub mod Events
pub mod Starting
