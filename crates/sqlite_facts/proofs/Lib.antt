pub mod FlatFile
pub mod CatalogRows
pub mod TwoReadings
pub mod Recounting
pub mod FrameParts
pub mod SameFrames
