pub mod Slots
pub mod Turns
pub mod Laws
pub mod Places
pub mod Mails
pub mod Complete
pub mod Showing
