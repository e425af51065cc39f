pub mod Falls
pub mod Wrong
