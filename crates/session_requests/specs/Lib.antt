pub mod Meant
pub mod Looking
