pub mod Endings
pub mod Asked
pub mod Telling
pub mod Idle
pub mod Made
pub mod Generated
pub mod ServeEnds
mod Deciding
pub mod Shown
pub mod Unread
