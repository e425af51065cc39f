pub mod Touched
pub mod Undoing
pub mod Reached
pub mod Pages
