pub mod Counts
pub mod Hearing
pub mod Lasting
pub mod Repeating
pub mod Waiting
