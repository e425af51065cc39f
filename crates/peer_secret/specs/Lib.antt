pub mod Hmac
pub mod Passes
pub mod Same
