pub mod HexWords
pub mod LineNumbers
pub mod Pieces
pub mod Reading
pub mod SpelledEvents
pub mod SpelledLines
