pub mod Pages
pub mod Digest
