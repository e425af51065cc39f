mod Following
pub mod Names
mod EachName
mod Spellings
mod Snapshots
mod Offices
mod EachUndo
mod Waiting
