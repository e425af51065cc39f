pub mod Streams
pub mod Pieces
pub mod Rooms
pub mod Numbers
pub mod Gate
