pub mod Generated
pub mod Asking
