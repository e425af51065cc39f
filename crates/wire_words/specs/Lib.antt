pub mod Items
pub mod Values
pub mod Reading
pub mod ReadingValues
pub mod Message
pub mod Stream
pub mod Writing
pub mod Holding
