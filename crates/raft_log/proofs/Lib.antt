pub mod Places
pub mod Agreeing
pub mod Commits
pub mod PeerTables
pub mod Taking
