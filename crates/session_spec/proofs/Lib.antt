pub mod Names
pub mod Images
pub mod Touched
pub mod Losing
mod Reported
pub mod Asked
pub mod Keeping
pub mod Following
pub mod Seeing
mod RestartedRequests
pub mod RestartedEvents
