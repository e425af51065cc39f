pub mod Counted
pub mod Moved
