pub mod HeadEnds
pub mod HeadReads
pub mod Searching
pub mod Greatest
pub mod Looking
