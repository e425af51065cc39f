pub mod Spelling
pub mod Cut
pub mod Nuls
pub mod Answering
pub mod Reading
