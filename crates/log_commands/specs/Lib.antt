pub mod Numbers
pub mod InRange
pub mod Spelling
pub mod Reading
pub mod Splitting
